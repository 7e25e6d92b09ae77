pub mod Said
pub mod Document
pub mod Fields
pub mod Kinds
pub mod Lists
pub mod NamedMembers
pub mod Held
pub mod Laws
