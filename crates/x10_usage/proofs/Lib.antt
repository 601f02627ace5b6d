mod TaskNumbers
