pub mod Copied
pub mod CopiedLaws
pub mod Put
pub mod PutLaws
