pub mod Table
pub mod Spelling
pub mod Laws
pub mod Rules
