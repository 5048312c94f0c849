pub mod Marks
pub mod Placed
pub mod Shapes
pub mod Judged
pub mod OneAnswer
