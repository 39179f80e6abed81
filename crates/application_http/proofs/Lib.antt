mod Chunks
mod Contents
mod Readings
mod Replies
mod Texts
