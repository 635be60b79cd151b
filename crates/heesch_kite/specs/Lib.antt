pub mod KiteTests
