pub mod StoredFiles
pub mod ChunksPut
