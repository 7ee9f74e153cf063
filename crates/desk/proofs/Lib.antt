mod Boards
mod Results
mod Room
mod Same
mod Serving
