mod Numbers
mod Unasked
