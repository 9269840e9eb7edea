-- What the contracts of sources, sinks and wires cite, in reading order.
pub mod Faults
pub mod Moved
pub mod Memory
pub mod Adapters
pub mod Wires
pub mod Scripted
