pub mod Results
pub mod Uvarint
pub mod UvarintLaws
