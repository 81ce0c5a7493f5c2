pub mod OptimalLoops
