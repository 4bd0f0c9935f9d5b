pub mod Found
pub mod Forms
pub mod Laws
