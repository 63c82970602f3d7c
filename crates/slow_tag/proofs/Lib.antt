pub mod Flops
