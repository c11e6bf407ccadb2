mod After
mod BadRuns
mod Carrying
mod Common
mod Cuts
mod FileBlocks
mod Fronts
mod Judging
mod LeastKeys
mod Levels
mod LiveKeys
mod LiveTests
mod Prefixes
mod RunBlocks
mod ShadowTests
pub mod CheckSaid
