pub mod Goes
pub mod Spelled
pub mod Fits
pub mod Stands
pub mod CutLaws
pub mod Scanned
