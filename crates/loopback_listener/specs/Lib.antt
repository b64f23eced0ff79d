pub mod Listening
