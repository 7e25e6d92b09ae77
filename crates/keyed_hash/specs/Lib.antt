pub mod KeyedHash
