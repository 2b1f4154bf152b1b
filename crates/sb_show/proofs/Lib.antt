mod Lengths
mod Units
