mod Found
mod Objects
mod Means
mod Rising
mod First
