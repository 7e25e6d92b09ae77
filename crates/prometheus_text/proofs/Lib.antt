mod Escaping
mod Walking
mod Spelling
mod Rows
