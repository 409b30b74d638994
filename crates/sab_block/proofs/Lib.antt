pub mod RawElements
pub mod WholeNumbers
pub mod ElementBytes
pub mod Combining
pub mod Equality
pub mod Lengths
