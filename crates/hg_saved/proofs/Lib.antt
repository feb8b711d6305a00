mod Contents
mod Heads
mod Numbers
mod Putting
mod Taking
