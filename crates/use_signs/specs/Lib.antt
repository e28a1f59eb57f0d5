pub mod Signs
pub mod Laws
