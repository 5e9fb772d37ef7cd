-- The item table and the rules for one item: tags that may stand, values and their shortest form.
pub mod Tags
pub mod Values
pub mod Shortest
