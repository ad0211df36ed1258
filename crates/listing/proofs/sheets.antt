pub mod Laws
mod Front
