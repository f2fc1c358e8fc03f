mod Counting
mod Forms
mod Joining
mod Presets
