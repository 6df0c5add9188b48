mod Steps
mod Triples
mod House
mod Leads
mod Moved
mod Places
pub mod Keeps
