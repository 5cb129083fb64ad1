pub mod ConfigLines
pub mod EachLine
pub mod Digits
pub mod ReferenceLines
pub mod Gathered
pub mod TextLines
