mod Measuring
mod Copying
mod Gating
