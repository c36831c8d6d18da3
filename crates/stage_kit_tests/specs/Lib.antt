pub mod NullTests
