-- Laws of what Index and Calls define; Theorems and the proofs of functions cite them.
pub mod Layout
pub mod Records
