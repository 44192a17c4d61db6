pub mod SmallKernels
