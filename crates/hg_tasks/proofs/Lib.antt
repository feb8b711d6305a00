mod Beginning
mod Errors
mod Refused
mod Spelled
