mod Words
mod Loops
mod Places
