mod Extents
mod Sums
