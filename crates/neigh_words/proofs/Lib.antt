mod Faultless
mod TakenWords
mod AskedRows
mod Numbers
