mod Coordinate
mod Mantissa
mod Filtering
mod Library
