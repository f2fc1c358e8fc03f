mod Adding
mod Counting
mod Storing
