-- `Laws` of numbers as bytes, over the width; `Loops` of the loops that put, read and copy them.
pub mod Laws
pub mod Loops
