mod Eight
mod Starts
