mod Asked
mod Quits
mod Called
mod OneStatus
