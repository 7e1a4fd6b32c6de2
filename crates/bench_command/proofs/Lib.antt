pub mod OneBench
pub mod MadeDesigns
