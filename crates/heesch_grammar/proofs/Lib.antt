pub mod Again
pub mod Heading
pub mod Inside
pub mod Running
pub mod Standing
pub mod Tails
pub mod Taking
pub mod Truth
