mod Answering
mod Mending
