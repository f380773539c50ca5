mod Places
mod Told
mod Telling
mod Reading
mod Windows
mod Steps
mod Runs
