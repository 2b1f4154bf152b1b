mod Units
mod Decimals
