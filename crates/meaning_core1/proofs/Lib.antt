pub mod Even
pub mod Owed
pub mod HostTasks
pub mod RunLaws
pub mod Layers
