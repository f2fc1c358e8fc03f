pub mod LargeProgram
