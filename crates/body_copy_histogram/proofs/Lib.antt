mod Elements
mod Parts
mod Found
