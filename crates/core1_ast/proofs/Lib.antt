pub mod FloatsInside
