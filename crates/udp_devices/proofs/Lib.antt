mod Octets
mod Bound
