mod Pieces
mod Shown
