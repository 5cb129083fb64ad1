mod BenchParts
mod BenchObjects
mod PlacedLines
mod SceneParts
mod BenchLengths
mod BenchRead
