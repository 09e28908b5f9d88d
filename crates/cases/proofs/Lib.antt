mod Answering
mod Computing
mod Same
mod Telling
