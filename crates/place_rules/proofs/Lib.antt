mod Base
mod Areas
