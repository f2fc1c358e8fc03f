mod Alone
mod Arms
mod Layers
mod Loops
