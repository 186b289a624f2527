pub mod KindLetters
