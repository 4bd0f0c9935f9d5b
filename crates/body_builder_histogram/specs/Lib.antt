pub mod Lent
pub mod Firsts
pub mod Front
pub mod Items
