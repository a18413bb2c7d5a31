mod Fitting
mod Decoding
mod Tables
mod Reading
